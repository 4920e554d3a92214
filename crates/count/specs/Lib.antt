pub mod Checked
pub mod Row
