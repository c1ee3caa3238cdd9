pub mod Pool
pub mod Pooling
pub mod Answers
