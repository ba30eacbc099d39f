pub mod Entries
pub mod MayUse
pub mod OrderLaws
pub mod PartLaws
pub mod Parts
pub mod Places
pub mod ReplicaCounts
pub mod Resolver
