pub mod Journals
pub mod Works
