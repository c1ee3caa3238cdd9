pub mod Fronts
pub mod Texts
pub mod Appending
pub mod Appended
pub mod Signed
pub mod Went
pub mod Theorems
