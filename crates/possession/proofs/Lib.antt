pub mod Opened
pub mod Owned
pub mod Stapled
pub mod Texts
