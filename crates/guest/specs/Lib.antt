-- What the code of this crate promises, where rules does not say it.
pub mod Walked
pub mod Measured
pub mod Laid
pub mod Finished
pub mod Marking
