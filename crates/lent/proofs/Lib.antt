pub mod Columns
pub mod Forms
pub mod Lending
pub mod Numbers
pub mod Stored
