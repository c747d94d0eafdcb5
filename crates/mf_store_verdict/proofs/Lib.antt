pub mod PlayLemmas
pub mod FileLemmas
