pub mod Counted
pub mod Endings
pub mod Inputs
pub mod Played
pub use Rattle.run_replays.proofs.run_safety as run_safety
