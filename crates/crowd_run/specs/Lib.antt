pub mod Passing
pub mod Program
pub mod Scripts
