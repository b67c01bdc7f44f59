pub mod FirstKeys
pub mod Made
pub mod Marks
pub mod Refused
pub mod Secrets
pub mod Statuses
pub mod Words
