pub mod ByCase
pub mod Represents
