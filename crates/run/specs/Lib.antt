pub mod Rows
pub mod Entry
pub mod Underway
