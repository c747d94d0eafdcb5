pub mod Journal
pub mod Playing
pub mod Answer
pub mod Movement
pub mod Copied
