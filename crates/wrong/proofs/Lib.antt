pub mod Laws
pub mod Opens
pub mod Continued
pub mod Signature
pub mod Theorems
