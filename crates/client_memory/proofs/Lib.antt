pub mod Books
pub mod Chains
pub mod Answering
pub mod Keeping
pub mod Placed
pub mod Same
