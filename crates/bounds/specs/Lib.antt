pub mod Refusal
pub mod Reason
pub mod Edition
pub mod Places
