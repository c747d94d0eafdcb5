pub mod Pieces
pub mod Whole
pub mod Joined
mod Quoted
