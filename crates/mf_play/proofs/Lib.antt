pub mod OneLine
pub mod Lines
pub mod Received
pub mod Runs
pub mod Played
pub mod PlayedLines
pub mod WorkedLemmas
pub mod TellingLemmas
