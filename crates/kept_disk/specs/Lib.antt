pub mod Disk
pub mod Fuel
pub mod Memory
pub mod MemoryLaws
pub mod Moments
pub mod Past
