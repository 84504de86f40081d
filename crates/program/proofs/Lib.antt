-- What the proofs of the program share.
pub mod Judged
pub mod Plain
pub mod Printing
pub mod Whole
