-- What the state and the answers of this crate mean. The tests themselves are said in rules: Writer.
pub mod Meaning
pub mod Judged
