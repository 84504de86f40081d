-- The derivation is said in rules: Derivation. Here: how its answers are read, and what its parts promise each other.
pub mod Answers
pub mod Answered
pub mod Marked
pub mod Written
pub mod Wanted
