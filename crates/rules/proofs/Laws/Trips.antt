-- Demand 2, there and back: what is written is read again, and what is read is written again.
pub mod Tests
pub mod Calls
pub mod Finish
pub mod Trip
pub mod Spelled
pub mod Again
pub mod Places
pub mod Derived
pub mod Found
pub mod Parsed
pub mod Exact
pub mod Room
pub mod Respelled
pub mod Single
