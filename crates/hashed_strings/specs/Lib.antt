pub mod Index
pub mod Named
pub mod Made
pub mod Judged
