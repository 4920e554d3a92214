pub mod Places
pub mod Slips
