-- What the command program prints and writes is said in rules: Program. Here: the same for a guest of any room, and what is answered.
pub mod Run
