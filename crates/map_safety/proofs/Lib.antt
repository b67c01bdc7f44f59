pub mod Tables
pub mod Fresh
