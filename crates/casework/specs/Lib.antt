-- What the contracts of this library cite.
pub mod Request
