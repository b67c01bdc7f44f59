pub mod Claims
pub mod Fields
pub mod Ranges
pub mod Texts
pub mod Padding
