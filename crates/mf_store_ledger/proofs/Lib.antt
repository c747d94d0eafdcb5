pub mod PageLemmas
pub mod AnswerLemmas
pub mod EndLemmas
pub mod MovementLemmas
