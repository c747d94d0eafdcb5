pub mod Portions
pub mod Table
pub mod Ties
