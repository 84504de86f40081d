-- What a token is stands in rules: Tokens. Here is how the properties of a node are read one after the other.
pub mod Properties
