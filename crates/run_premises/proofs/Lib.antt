pub mod Collisions
pub mod Counting
pub mod Hashing
pub mod Meaning
pub mod Ties
