pub mod Lms
pub mod Signing
