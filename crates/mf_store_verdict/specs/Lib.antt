pub mod Archives
pub mod Heads
pub mod Verdict
