pub mod Totals
pub mod Numbers
pub mod Prefixes
pub mod Shares
