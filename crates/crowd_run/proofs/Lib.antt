pub mod Inputs
pub mod LineLemmas
pub mod Plain
pub mod Ready
pub mod Safe
pub mod SomeWays
pub mod Words
