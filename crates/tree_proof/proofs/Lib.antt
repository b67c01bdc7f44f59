pub mod Walk
pub mod Down
pub mod Tested
pub mod Lands
pub mod Bind
pub mod Accepted
