pub mod BeginningLemmas
pub mod OpeningLemmas
pub mod SheetLemmas
pub mod ServingLemmas
pub mod ClosingLemmas
