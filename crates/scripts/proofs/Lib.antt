-- What the proofs of this library share.
pub mod Spelt
