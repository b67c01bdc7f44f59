pub mod Carrying
pub mod Dealing
pub mod Orders
