pub mod Closing
pub mod Finding
pub mod Moving
