pub mod Answers
pub mod Audits
pub mod Follows
pub mod Reviews
pub mod Telling
