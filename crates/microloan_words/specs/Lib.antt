pub mod Options
pub mod Asked
pub mod Owed
pub mod Wrong
