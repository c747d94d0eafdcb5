pub mod Closed
pub mod Opened
pub mod Stops
pub mod Taken
pub mod Versions
