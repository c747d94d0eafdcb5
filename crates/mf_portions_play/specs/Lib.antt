pub mod Reading
pub mod Ends
