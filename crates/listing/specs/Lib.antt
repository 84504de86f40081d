-- What is listed is said in rules: Listing. Here: how it stands in the work space while it is found, and at the end.
pub mod State
pub mod Given
pub mod Visit
pub mod Walk
pub mod Sift
pub mod Lists
