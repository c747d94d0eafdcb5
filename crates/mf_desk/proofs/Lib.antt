pub mod Decisions
pub mod AnswerLemmas
pub mod ChargeLemmas
pub mod LoanLemmas
pub mod Calling
