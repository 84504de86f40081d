-- The laws that the proofs of this crate share.
pub mod Marks
pub mod Sifts
pub mod Noted
pub mod Turns
pub mod Grown
pub mod Counted
pub mod Sieved
pub mod Regions
pub mod Filled
pub mod Closed
