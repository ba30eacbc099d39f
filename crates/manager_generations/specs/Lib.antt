pub mod Phases
pub mod Generations
pub mod Moves
