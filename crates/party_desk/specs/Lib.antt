pub mod Asking
pub mod Owners
pub mod Telling
pub mod Written
