pub mod Versions
pub mod Named
