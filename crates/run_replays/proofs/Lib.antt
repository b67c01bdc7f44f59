pub mod Becoming
pub mod Doing
pub mod Lines
pub mod Made
pub mod Notes
pub mod Runs
pub mod Texts
pub use Rattle.run_safety.proofs as run_safety
