-- The laws that the proofs of this crate cite.
pub mod Fresh
pub mod Parts
pub mod Notes
pub mod Visits
pub mod Walks
pub mod Gained
pub mod Sieved
pub mod Joined
