-- What the contracts of this library cite.
pub mod Case
pub mod Digests
pub mod Lent
