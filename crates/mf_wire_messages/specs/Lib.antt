pub mod Heads
pub mod Messages
pub mod Framing
pub mod Arrivals
pub mod Responses
pub mod Worked
