-- The CPU rule is said in rules: Copy, Derivation. Here: how the answers of this crate are read, and the search for `reg`.
pub mod Registers
pub mod Answers
