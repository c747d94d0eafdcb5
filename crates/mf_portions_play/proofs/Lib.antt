pub mod ReadingLemmas
pub mod EndsLemmas
