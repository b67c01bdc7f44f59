pub mod Names
pub mod NameReading
