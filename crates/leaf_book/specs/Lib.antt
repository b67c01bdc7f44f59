pub mod Book
pub mod Rule
pub mod Steps
