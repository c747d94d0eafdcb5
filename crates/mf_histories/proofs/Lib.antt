pub mod Numbered
pub mod OneRequest
pub mod OneLine
pub mod Whole
