pub mod AroundLemmas
pub mod LoanFlawLemmas
pub mod PlaceLemmas
pub mod DifferenceLemmas
pub mod EntryFlawLemmas
mod SuspectLemmas
pub mod AddLemmas
pub mod AccountLemmas
pub mod AddedLemmas
pub mod LoanLemmas
pub mod BalancedLemmas
pub mod FitLemmas
pub mod LimitLemmas
pub mod WalkLemmas
pub mod TableLemmas
mod WorkedRows
pub mod AuditLemmas
pub mod JournalLemmas
pub mod KeptLemmas
pub mod UnreadLemmas
pub mod ToldLemmas
