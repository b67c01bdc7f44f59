pub mod Determined
pub mod Keeping
