-- What is printed is said in rules: Program. Here: the same text of a path list as it is lent, NULs and all.
pub mod Text
