-- What the functions of this crate promise each other. What the start nodes are is said in rules: Listing.
pub mod Region
pub mod Starts
