pub mod FoundLemmas
pub mod ToldLemmas
