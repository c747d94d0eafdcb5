pub mod Becoming
pub mod Fitting
pub mod Kept
pub mod Puts
pub mod Tabled
pub mod Upgrading
pub mod Writing
