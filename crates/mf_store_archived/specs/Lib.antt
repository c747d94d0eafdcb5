pub mod Archives
pub mod Reading
pub mod Joining
