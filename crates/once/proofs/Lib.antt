pub mod Pairs
pub mod Theorems
