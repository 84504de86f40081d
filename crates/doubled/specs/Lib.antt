-- How a pass's answer is read, and what the parts of refusal 10 promise each other. What is refused is said in rules: Tree.
pub mod Passes
pub mod Sorted
pub mod Props
pub mod Siblings
