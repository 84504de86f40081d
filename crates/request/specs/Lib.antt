-- What a request text says is said in rules: Program. Here: what the answers of this crate say of it.
pub mod Answers
pub mod Lines
