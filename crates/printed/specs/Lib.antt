pub mod Decimal
pub mod Station
pub mod Answers
