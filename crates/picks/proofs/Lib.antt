-- The laws that the proofs of this crate cite.
pub mod Places
pub mod Marking
pub mod Coding
