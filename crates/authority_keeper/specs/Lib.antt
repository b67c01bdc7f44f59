pub mod Checks
pub mod Determined
pub mod Inputs
pub mod Keeping
pub mod Said
