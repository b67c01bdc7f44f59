pub mod Kept
pub mod Station
pub mod Worlds
