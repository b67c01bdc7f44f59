pub mod Strings
pub mod Entries
pub mod Root
pub mod Path
pub mod Kept
