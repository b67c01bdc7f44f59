pub mod Records
pub use Rattle.ar_safety.specs as ar_safety
