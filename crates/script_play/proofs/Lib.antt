pub mod Deliveries
pub mod Inputs
pub mod Parts
pub mod Runs
pub mod Taking
pub mod Written
