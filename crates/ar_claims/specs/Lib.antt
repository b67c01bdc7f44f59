pub mod Claimed
pub mod Lists
pub mod Verified
