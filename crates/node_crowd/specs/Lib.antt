pub mod Along
pub mod Bringing
pub mod Laying
pub mod Stalls
pub mod Working
