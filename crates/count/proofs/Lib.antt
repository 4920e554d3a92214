pub mod Answers
pub mod Cheap
pub mod Falls
pub mod Rows
pub mod Stairs
pub mod Stretches
