-- The laws that the proofs of this crate cite.
pub mod Tests
pub mod Regions
pub mod Turns
