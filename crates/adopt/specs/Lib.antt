pub mod Adopt
pub mod Answers
