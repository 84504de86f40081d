-- What the reader's answers say in the paper's numbers, and what the parts of the reader promise each other.
pub mod Answers
pub mod Whole
