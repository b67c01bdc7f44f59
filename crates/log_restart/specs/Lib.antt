pub mod Books
pub mod Inputs
pub mod Restarted
pub mod Running
