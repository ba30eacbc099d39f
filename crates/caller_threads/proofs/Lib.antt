pub mod Shares
pub mod Places
pub mod Results
pub mod Submitting
pub mod Jobs
pub mod Threads
