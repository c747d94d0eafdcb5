pub mod Feeding
pub mod Pieces
pub mod RunLemmas
pub mod Serving
pub mod Status
pub mod Writes
