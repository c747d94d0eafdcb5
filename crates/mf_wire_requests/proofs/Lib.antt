pub mod Asking
pub mod DayTexts
pub mod InRange
pub mod Matched
pub mod Ranges
