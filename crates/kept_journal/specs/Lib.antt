pub mod Appending
pub mod Fused
pub mod Journal
pub mod Loaded
pub mod Opening
pub mod Replays
pub mod Settled
