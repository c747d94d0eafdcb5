pub mod Played
pub mod Answer
pub mod Archived
