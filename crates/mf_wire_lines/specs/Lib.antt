pub mod Cut
pub mod Reading
pub mod Replies
pub mod Run
pub mod Streams
pub mod Ends
pub mod Watched
pub mod Told
