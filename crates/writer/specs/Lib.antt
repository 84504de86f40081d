-- What the writer's answers mean. What each call does is said in rules: Writer.
pub mod Meaning
pub mod Longer
