pub mod Answers
pub mod Asking
pub mod Ending
pub use Rattle.run_replays.specs.run_safety as run_safety
