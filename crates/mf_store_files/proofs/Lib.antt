pub mod AdoptLemmas
pub mod OpenedLemmas
pub mod UpgradedLemmas
pub mod StopLemmas
pub mod TellingLemmas
pub mod ClosedLemmas
pub mod TakenLemmas
