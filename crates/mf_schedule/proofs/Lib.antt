pub mod FixedLemmas
pub mod PlanLemmas
pub mod GraceLemmas
pub mod LoanLemmas
pub mod BoundLemmas
pub mod WorkedRows
pub mod TextLemmas
