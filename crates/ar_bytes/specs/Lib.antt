pub mod Reading
pub mod RoundTrip
pub mod Tested
pub mod Ascending
pub mod Joined
pub mod Lists
