pub mod Confirmation
pub mod Views
pub mod Sending
pub mod Shown
pub mod Filling
pub mod Lists
pub mod Messages
pub mod Answers
