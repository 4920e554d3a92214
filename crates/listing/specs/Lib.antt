pub mod Listing
pub mod Bytes
pub mod Walks
