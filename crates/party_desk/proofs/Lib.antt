pub mod Asks
pub mod Lessons
pub mod Letters
pub mod Messages
pub mod OneText
pub mod Orders
pub mod Refusals
