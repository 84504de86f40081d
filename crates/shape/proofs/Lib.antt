-- What the proofs of the walk share.
pub mod Steps
pub mod Walks
pub mod Unique
