pub mod Each
pub mod Read
pub mod Shown
pub mod Verified
