pub mod Pools
pub mod Shares
pub mod Joining
pub mod Takings
pub mod Theorems
