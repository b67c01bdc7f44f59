pub mod Answered
pub mod Lessons
pub mod Orders
pub mod Rolled
pub mod Spelled
