-- Which nodes are copied is said in rules: Copy. Here: how that is found from parent to child.
pub mod Marks
pub mod Standings
pub mod Turns
