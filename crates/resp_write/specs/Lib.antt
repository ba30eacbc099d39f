pub mod Arguments
pub mod Command
pub mod Pack
pub mod Canonical
pub mod Lent
pub mod Subscription
