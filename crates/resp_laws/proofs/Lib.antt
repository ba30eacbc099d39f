pub mod Lengths
pub mod Commands
pub mod Pipelines
pub mod Texts
pub mod Pieces
pub mod Framed
