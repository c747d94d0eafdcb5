pub mod Fixed
pub mod Plan
pub mod Fresh
pub mod Settled
pub mod ScheduleText
