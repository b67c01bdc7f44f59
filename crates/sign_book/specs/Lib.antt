pub mod Book
pub mod Entry
pub mod Due
pub mod Run
