pub mod TextLemmas
pub mod TreeLemmas
pub mod KeyLemmas
pub mod WrittenLemmas
pub mod ReadLemmas
pub mod AddedLemmas
pub mod DepthLemmas
