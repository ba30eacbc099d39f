pub mod Rule
pub mod Steps
pub mod Calls
pub mod Claims
pub mod Closes
pub mod Sends
