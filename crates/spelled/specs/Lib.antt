-- The bytes of a list of nodes.
pub mod Lists
