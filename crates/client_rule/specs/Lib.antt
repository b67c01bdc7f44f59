pub mod Meaning
pub mod Notes
pub mod Rule
pub mod Views
