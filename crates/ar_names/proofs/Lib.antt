pub mod Places
pub mod Least
