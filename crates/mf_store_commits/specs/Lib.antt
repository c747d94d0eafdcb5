pub mod Becoming
pub mod ChangeWrites
pub mod Suiting
