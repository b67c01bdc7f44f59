pub mod Determined
pub mod Inputs
pub mod Kept
pub mod Lives
pub mod Said
pub mod Steps
