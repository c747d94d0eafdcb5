pub mod Ageing
pub mod Line
pub mod Report
pub mod Folding
