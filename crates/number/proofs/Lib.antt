pub mod Groups
pub mod Written
pub mod RoundTrip
pub mod Calls
