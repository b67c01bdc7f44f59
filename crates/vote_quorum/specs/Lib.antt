pub mod Ballots
pub mod Counted
pub mod Marks
pub mod Numbers
pub mod Statuses
