pub mod Counts
pub mod Windows
pub mod Chains
pub mod Growth
pub mod Common
pub mod Agree
pub mod Theorems
pub mod Example
