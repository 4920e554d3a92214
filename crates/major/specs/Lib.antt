pub mod Major
pub mod Reading
pub mod Matched
pub mod Circle
pub mod Bits
pub mod Left
pub mod Tally
