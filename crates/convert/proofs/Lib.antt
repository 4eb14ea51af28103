pub mod Walk
pub mod Anew
pub mod Passes
pub mod Answers
