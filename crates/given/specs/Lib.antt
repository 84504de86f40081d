-- What path lists are is said in rules: Derivation. Here: what the answers of this crate say of them.
pub mod Entries
pub mod Answers
