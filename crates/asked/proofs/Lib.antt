-- What the proofs of named nodes share.
pub mod Nodes
pub mod Judged
pub mod Ones
pub mod Turns
