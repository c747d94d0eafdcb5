pub mod RateLemmas
pub mod PreviewLemmas
pub mod ChangeLemmas
pub mod TakingLemmas
pub mod ListLemmas
pub mod WorkedLemmas
