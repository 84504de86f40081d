-- The laws that the proofs of this crate cite.
pub mod Checks
pub mod Writing
pub mod Joining
pub mod Unique
