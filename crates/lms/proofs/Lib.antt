pub mod Sizes
pub mod Chains
pub mod Checksum
pub mod Signing
pub mod Theorems
