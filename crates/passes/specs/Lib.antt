-- What one token does in each pass. What is refused is said in rules: Tree; how an answer is read, in doubled: Passes.
pub mod Cells
pub mod Rows
