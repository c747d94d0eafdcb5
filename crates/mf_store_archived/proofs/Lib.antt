pub mod AllLemmas
pub mod CheckLemmas
pub mod JoinLemmas
