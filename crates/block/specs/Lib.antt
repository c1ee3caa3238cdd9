pub mod Block
pub mod Answers
pub mod Steps
pub mod Blocks
pub mod Typed
