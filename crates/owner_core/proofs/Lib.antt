pub mod Again
pub mod Among
pub mod Counted
pub mod Spots
pub mod Stepped
pub mod Taken
pub mod Texts
pub mod Vouched
