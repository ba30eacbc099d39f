pub mod Changes
pub mod Ties
pub mod Requests
pub mod Links
pub mod Internal
pub mod Managers
pub mod Turn
