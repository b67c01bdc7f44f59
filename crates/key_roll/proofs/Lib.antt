pub mod Books
pub mod Later
pub mod Rings
