-- Demand 3: nothing leaks.
pub mod Alike
pub mod Tokens
pub mod Answers
pub mod Blob
pub mod Hidden
pub mod Leaks
pub mod Edition
