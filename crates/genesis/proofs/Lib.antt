pub mod Faults
pub mod Sound
pub mod Lengths
pub mod Theorems
pub mod Depths
