-- What the code of this crate promises, where rules does not say it.
pub mod Rows
pub mod Table
pub mod Scan
