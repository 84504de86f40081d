-- What the proofs of the printed texts share.
pub mod Laying
pub mod Spelling
