pub mod Confirmed
pub mod Flushes
pub mod Headline
pub mod Kept
pub mod Lasting
pub mod Own
pub mod Passing
pub mod Seats
pub mod Unforged
pub use Rattle.ar_world.specs.ar_founding as ar_founding
pub use Rattle.ar_world.specs.ar_nodes as ar_nodes
pub use Rattle.ar_world.specs as ar_world
pub use Rattle.ar_world.specs.log_core as log_core
