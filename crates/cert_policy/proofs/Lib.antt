pub mod AsSet
pub mod Least
pub mod Meaning
