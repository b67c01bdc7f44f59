pub mod Candidate
pub mod Chain
pub mod Digits
pub mod OtsKind
pub mod Signing
pub mod Ways
