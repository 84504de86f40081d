-- What the proofs of the calls share, a file for each group of calls.
pub mod Passed
pub mod Properties
pub mod Phandles
pub mod Starts
