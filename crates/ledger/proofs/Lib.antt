pub mod Openings
pub mod Forward
pub mod Counts
