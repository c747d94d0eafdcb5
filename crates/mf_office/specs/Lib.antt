pub mod Numbers
pub mod Tree
pub mod Keys
pub mod Written
pub mod Texts
pub mod Roles
