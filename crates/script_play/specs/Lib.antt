pub mod Counts
pub mod Played
pub mod Playing
pub use Rattle.ar_world.specs.ar_nodes as ar_nodes
pub use Rattle.ar_world.specs as ar_world
