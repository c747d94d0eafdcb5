pub mod InRange
pub mod Rows
pub mod Ran
pub mod Uses
pub mod Judging
pub mod Again
pub mod Repeats
pub mod Twice
