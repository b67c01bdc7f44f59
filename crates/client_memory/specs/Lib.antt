pub mod Book
pub mod Links
pub mod Answers
pub mod Meaning
pub mod Calls
