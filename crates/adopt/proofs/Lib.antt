pub mod FirstSlot
pub mod Theorems
