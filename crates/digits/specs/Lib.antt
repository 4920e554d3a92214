pub mod Digits
pub mod Slips
