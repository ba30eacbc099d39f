pub mod Setup
pub mod Judgement
pub mod Permits
