-- What the proofs of the tests share, a file for each group of calls.
pub mod Possible
pub mod Properties
pub mod Phandles
pub mod Starts
