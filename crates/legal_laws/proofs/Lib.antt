pub mod Links
pub mod Notices
pub mod Internal
pub mod Submissions
pub mod Generations
pub mod Traces
pub mod Waits
pub mod Counts
