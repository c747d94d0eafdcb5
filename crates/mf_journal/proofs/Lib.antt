pub mod ChainLemmas
pub mod FollowingLemmas
pub mod Noting
pub mod Replays
