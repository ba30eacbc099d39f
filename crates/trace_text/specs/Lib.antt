pub mod Words
pub mod Plain
pub mod Errors
pub mod Show
pub mod Writer
pub mod Groups
