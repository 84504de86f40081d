-- What the proofs of the header share.
pub mod Heads
pub mod Unique
