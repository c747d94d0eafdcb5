pub mod Chain
pub mod Following
pub mod Founding
pub mod Journal
pub mod WorkedJournal
