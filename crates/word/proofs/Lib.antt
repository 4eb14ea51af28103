pub mod Numbers
pub mod Fields
pub mod Flags
pub mod Packed
pub mod Truncated
