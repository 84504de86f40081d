-- The laws that the proofs of this crate cite.
pub mod Climbs
pub mod Endings
pub mod Names
pub mod Ways
pub mod Spellings
