pub mod Lines
pub mod Runs
pub mod Ends
pub mod Again
