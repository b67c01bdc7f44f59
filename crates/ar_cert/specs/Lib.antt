pub mod Lists
pub mod Certificate
pub mod Changes
pub mod Views
pub mod Judging
pub mod Same
