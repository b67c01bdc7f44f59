pub mod World
pub mod Example
