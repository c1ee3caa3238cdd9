pub mod Validity
pub mod Displays
pub mod Theorems
