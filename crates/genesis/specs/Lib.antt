pub mod Genesis
pub mod Answers
pub mod Depths
