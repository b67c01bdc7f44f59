pub mod FirstKeys
pub mod Founded
pub mod Founding
