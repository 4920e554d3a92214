pub mod Ranks
pub mod Version
