-- The words that contracts and definitions of the crates above cite; the laws, what follows from all these definitions, are proved in
-- proofs/Laws.
pub mod Constants
pub mod Lists
pub mod Reservations
pub mod Blob
pub mod Tokens
pub mod Events
pub mod Reader
pub mod Paths
pub mod Sieve
pub mod Given
pub mod Program
pub mod Tabled
pub mod Lent
pub mod Kept
pub mod Host
