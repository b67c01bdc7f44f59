pub mod Meanings
pub mod Aging
pub mod Learning
pub mod Claiming
