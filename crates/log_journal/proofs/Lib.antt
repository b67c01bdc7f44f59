pub mod Accepted
pub mod Kept
pub mod Replayed
pub mod Spelled
