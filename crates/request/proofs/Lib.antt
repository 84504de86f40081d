-- What the proofs of the request text share.
pub mod Turns
pub mod Entered
pub mod Unique
pub mod Short
pub mod Spoken
