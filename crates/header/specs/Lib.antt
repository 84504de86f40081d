-- How the answers of the header's judge are read.
pub mod Header
