pub mod Asking
pub mod Delivering
pub mod Drafting
pub mod Examples
pub mod Finding
pub mod Forging
pub mod Founding
pub mod Judging
pub mod Kept
pub mod Learning
pub mod Ordering
pub mod Owning
pub mod Printed
pub mod Records
pub mod Run
pub mod Sending
pub mod Settling
pub mod State
pub mod Step
pub mod Submitting
pub use Rattle.ar_founding.specs as ar_founding
pub use Rattle.ar_nodes.specs as ar_nodes
pub use Rattle.ar_nodes.specs.log_core as log_core
