pub mod Heads
pub mod Refusals
pub mod Theorems
