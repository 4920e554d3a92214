pub mod Again
pub mod Range
pub mod Lines
pub mod Sift
pub mod Examine
