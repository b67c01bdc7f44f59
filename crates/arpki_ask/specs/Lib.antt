pub mod Answers
pub mod Commands
pub mod Inquiries
pub mod Notes
pub mod Questions
pub mod Written
