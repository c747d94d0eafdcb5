pub mod Choice
pub mod Runs
pub mod Serving
pub mod Exchanges
