pub mod RunLemmas
pub mod LoanLemmas
pub mod HeldLemmas
pub mod PassedLemmas
pub mod LineLemmas
pub mod MovingLemmas
pub mod OpeningLemmas
