pub mod KeyBits
pub mod Maps
pub mod ByCount
pub mod Ascending
pub mod Few
pub mod Paths
pub mod Changed
pub mod Kept
pub mod Two
pub mod Put
pub mod Take
pub mod Set
pub mod Longer
mod Same
