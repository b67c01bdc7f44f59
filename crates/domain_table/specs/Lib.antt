pub mod Tables
pub mod Applying
pub mod Tree
pub mod Sound
pub mod Rows
pub mod Waiting
