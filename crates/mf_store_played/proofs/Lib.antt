pub mod RowLemmas
pub mod PlayLemmas
pub mod HeldLemmas
pub mod AnswerLemmas
pub mod OnceLemmas
pub mod CopyLemmas
pub mod ArchivedLemmas
