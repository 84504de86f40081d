-- What follows from the definitions of document 01, proved: that the tables of cases hold, and the laws, which the proofs of every crate
-- cite.
pub mod Bench
pub mod Readings
pub mod Laws
