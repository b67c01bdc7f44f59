pub mod Bounds
pub mod Claims
pub mod Growing
pub mod Joined
pub mod Signed
pub mod Touching
