pub mod AllRecords
pub mod Amounts
pub mod Days
pub mod FourFields
pub mod Ranges
pub mod ResultTexts
pub mod Tests
