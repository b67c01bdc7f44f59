pub mod Following
pub mod Given
pub mod Keeping
pub mod Learning
pub mod Mapped
pub mod Stored
pub mod Told
pub mod Verifying
