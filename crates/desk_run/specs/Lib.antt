pub mod Answers
pub mod Crashes
pub mod Lines
pub mod Opened
pub mod Reading
pub mod Runs
pub mod Stops
