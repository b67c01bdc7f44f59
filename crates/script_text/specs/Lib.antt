pub mod Forms
pub mod Grammar
pub mod Rows
pub mod Written
