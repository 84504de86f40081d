-- The laws that the proofs of refusal 10 cite; Turns and Ranges serve the other passes too.
pub mod Turns
pub mod Doubles
pub mod Twins
pub mod Chunks
pub mod Ranges
pub mod Rows
