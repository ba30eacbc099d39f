pub mod FirstLemmas
pub mod FrontLemmas
pub mod StartLemmas
pub mod BoundLemmas
pub mod RingLemmas
pub mod TakeLemmas
pub mod MessageLemmas
pub mod CameLemmas
