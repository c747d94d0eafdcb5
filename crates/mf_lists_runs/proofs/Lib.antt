pub mod Calling
pub mod Views
pub mod Ran
pub mod Served
pub mod Responses
