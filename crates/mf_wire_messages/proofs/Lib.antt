pub mod BodyLemmas
pub mod FieldLemmas
pub mod GatherLemmas
pub mod HeadLemmas
pub mod MessageLemmas
pub mod PhraseLemmas
