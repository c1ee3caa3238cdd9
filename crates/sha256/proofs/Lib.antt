pub mod Digits
pub mod Made
pub mod Padded
pub mod Schedule
pub mod Working
