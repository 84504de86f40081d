-- What the loops over reservations share.
pub mod Entries
