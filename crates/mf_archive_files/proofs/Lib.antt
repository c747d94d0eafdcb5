mod ClosingLemmas
mod FindingLemmas
mod MovingLemmas
mod OverLemmas
