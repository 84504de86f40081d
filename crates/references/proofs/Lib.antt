-- The laws that the proofs of this crate cite.
pub mod Names
pub mod Tables
pub mod Counts
pub mod Scans
pub mod Unique
