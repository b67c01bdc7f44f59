pub mod Determined
pub mod Keeping
pub mod Lasting
pub mod Reasons
pub mod Stapling
pub mod Texts
