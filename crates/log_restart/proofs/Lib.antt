pub mod Booked
pub mod Costs
pub mod Ran
pub mod Replaying
pub mod TwoRuns
pub mod Stepping
