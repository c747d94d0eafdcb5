pub mod EffectLemmas
pub mod OnceLemmas
pub mod UndoLemmas
pub mod GoodLemmas
pub mod StandingLemmas
pub mod SoundLemmas
pub mod ConserveLemmas
pub mod StandingIsOne
pub mod InOrder
pub mod WorkedRows
pub mod ReplayLemmas
pub mod BoundLemmas
pub mod RewindLemmas
pub mod ChangeLemmas
pub mod DifferLemmas
pub mod TailLemmas
pub mod ResumeLemmas
pub mod RemovedLemmas
pub mod ApplyLemmas
pub mod RedoneLemmas
pub mod OrderLemmas
pub mod SealLemmas
pub mod PenaltyLemmas
pub mod DueLemmas
pub mod ClearingLemmas
pub mod ActiveLemmas
pub mod OpenLemmas
pub mod LawfulLemmas
pub mod ToldLemmas
pub mod ByDayLemmas
mod OrderedLemmas
mod SafeLemmas
mod WithinLemmas
pub mod StatusLemmas
pub mod ReceiptLemmas
