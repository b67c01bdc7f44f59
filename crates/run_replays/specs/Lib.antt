pub mod Inputs
pub mod Replayed
pub use Rattle.log_journal.specs as log_journal
pub use Rattle.run_safety.specs as run_safety
