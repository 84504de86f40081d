-- The laws that the proofs of the passes cite.
pub mod Watched
pub mod Phandles
