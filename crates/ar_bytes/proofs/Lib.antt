pub mod Steps
pub mod Passing
pub mod Parts
pub mod TestedFields
pub mod JoinedFields
pub mod Ascending
pub mod Taken
pub mod Lists
