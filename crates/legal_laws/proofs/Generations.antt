pub mod Aside
pub mod Goes
pub mod Lives
pub mod Creation
pub mod Attempts
pub mod Generations
