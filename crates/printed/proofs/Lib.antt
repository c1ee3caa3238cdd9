pub mod Decimals
pub mod Texts
pub mod Inputs
pub mod Cut
