pub mod Blocks
pub mod Held
pub mod Chunks
pub mod Digests
pub mod Different
pub mod Premises
pub mod Reported
pub mod Theorems
