-- How two paths part, for their order. What paths are is said in rules: Tree.
pub mod Order
