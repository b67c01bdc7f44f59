pub mod Fold
pub mod Membership
pub mod Path
