pub mod Causes
pub mod State
pub mod Drafts
pub mod Objecting
pub mod Signing
pub mod Rows
pub mod Vouching
