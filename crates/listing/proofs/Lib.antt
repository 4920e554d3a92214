pub mod Laid
pub mod Trays
pub mod Turns
pub mod Whole
pub mod Consequences
