pub mod Told
pub mod Due
pub mod Opening
pub mod Playing
