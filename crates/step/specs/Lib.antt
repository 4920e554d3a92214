pub mod Steps
pub mod Advance
pub mod Batch
pub mod Run
pub mod Stride
pub mod Turn
