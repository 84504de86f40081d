-- Refusals 10, 11 and 12 by their sentences: each passes exactly where no place is at fault, and else names the first that is.
pub mod Told
pub mod Rise
pub mod Doubled
pub mod Words
pub mod Shared
pub mod Reader
