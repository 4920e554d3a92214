pub mod Lists
pub mod Blocks
