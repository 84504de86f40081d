-- What the proofs of the reader share.
pub mod Unique
pub mod Carried
pub mod Rows
pub mod Joined
pub mod Twins
