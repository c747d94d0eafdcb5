pub mod Beginning
pub mod Counts
pub mod Facts
pub mod Learning
pub mod Looks
pub mod Sought
pub mod Stands
