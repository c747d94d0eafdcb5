pub mod Opening
pub mod Beginnings
pub mod Listed
pub mod Sheets
pub mod Serving
pub mod Closing
