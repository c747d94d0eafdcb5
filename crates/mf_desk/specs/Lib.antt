pub mod Answers
pub mod Charges
pub mod Entries
pub mod Runs
