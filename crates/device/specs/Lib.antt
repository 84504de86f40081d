-- The list asked for alone is said in rules: Device. Here: how its answers are read, and what its parts promise each other.
pub mod Answers
pub mod Answered
pub mod Written
