pub mod Answered
pub mod Deliveries
pub mod Drafts
pub mod Due
pub mod EachLine
pub mod FirstParties
pub mod Forgers
pub mod Learnt
pub mod Lines
pub mod Newest
pub mod Ordered
pub mod Orders
pub mod OwnerReplies
pub mod Phases
pub mod Pools
pub mod Refused
pub mod Remembered
pub mod Retold
pub mod Runs
pub mod Searched
pub mod Seats
pub mod Sends
pub mod Settling
pub mod Small
pub mod Stepping
pub mod Terms
pub use Rattle.ar_nodes.proofs as ar_nodes
pub use Rattle.ar_nodes.proofs.log_core as log_core
