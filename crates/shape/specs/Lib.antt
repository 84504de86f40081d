-- What the walk's answers say in the paper's numbers, and what its parts promise each other.
pub mod Answers
pub mod Shape
