pub mod Charge
pub mod Limits
pub mod Product
pub mod Names
