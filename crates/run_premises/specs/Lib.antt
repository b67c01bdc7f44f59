pub mod Books
pub mod Hashing
pub mod Known
