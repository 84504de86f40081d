-- Document 01 as definitions, one module for each section, in its order and words. What a reader must believe is all here.
pub mod Ceilings
pub mod Octets
pub mod Lists
pub mod Outcome
pub mod Names
pub mod Reservations
pub mod Writer
pub mod Blob
pub mod Tokens
pub mod Events
pub mod Tree
pub mod Reader
pub mod Written
pub mod Grammar
pub mod References
pub mod Listing
pub mod Copy
pub mod Derivation
pub mod Device
pub mod Space
pub mod Program
pub mod Withheld
pub mod Demands
pub mod Exactly
pub mod Everything
pub mod Bench
pub mod Readings
-- for contracts over lent words: how a node table is read as a tree (Tabled), what a work space keeps of it (Kept), and the other words
-- that contracts cite. These a reader of such a contract looks up; what follows from all of them is proved, in proofs/
pub mod Laws
