pub mod Play
pub mod Playing
pub mod WorkedPlay
