pub mod Comes
pub mod Reopen
pub mod Generate
pub mod Regenerate
pub mod Judge
pub mod First
pub mod Begins
