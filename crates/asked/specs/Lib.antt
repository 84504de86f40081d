-- What path lists name is said in rules: Derivation. Here: how far a list is taken, how the answer is read, and lists that are judged.
pub mod Nodes
pub mod Answers
pub mod Judged
