pub mod Told
pub mod Changed
pub mod Counted
pub mod Due
pub mod Finding
pub mod DayTold
