pub mod AmountLemmas
pub mod ProductLemmas
