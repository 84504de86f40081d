-- What the proofs of path lists share.
pub mod Turns
