pub mod Lines
pub mod Printed
pub mod Page
pub mod Append
