pub mod Boundary
pub mod Trays
