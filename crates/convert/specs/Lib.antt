pub mod Reasons
pub mod Rewritten
