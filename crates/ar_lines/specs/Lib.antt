pub mod Forms
pub mod Lines
pub mod Parties
pub mod Readings
pub mod Refusals
pub mod Rows
pub mod Views
pub mod Written
