pub mod Sums
pub mod Rows
pub mod Portions
pub mod Payment
pub mod Order
pub mod OrderLaws
pub mod PaymentLaw
pub mod DueFirstLaw
