pub mod Directory
pub mod Kept
pub mod Learning
pub mod Seen
pub mod Seeds
pub mod Signatures
pub mod Signers
