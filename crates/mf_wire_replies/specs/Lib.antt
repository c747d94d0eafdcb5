pub mod AccountTexts
pub mod ArrearsTexts
pub mod Catalogue
pub mod Json
pub mod LoanTexts
pub mod Shown
