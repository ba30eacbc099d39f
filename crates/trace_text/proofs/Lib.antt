pub mod Canonical
pub mod Children
pub mod Plain
pub mod Runs
pub mod ScriptLines
