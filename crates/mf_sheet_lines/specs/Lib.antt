pub mod Causes
pub mod Fields
pub mod Lines
pub mod Results
pub mod Sheets
