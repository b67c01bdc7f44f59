pub mod Council
pub mod Endorsements
pub mod Room
pub mod Seen
pub mod Values
pub mod Votes
