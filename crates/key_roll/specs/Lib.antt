pub mod Book
pub mod Due
pub mod Later
pub mod Entry
pub mod Rolls
pub mod Ring
