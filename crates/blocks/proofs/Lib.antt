pub mod Listed
pub mod Entries
pub mod Copied
