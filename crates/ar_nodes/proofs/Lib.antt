pub mod Bytes
pub mod Forgers
pub mod Found
pub mod Nodes
pub mod Noted
pub mod Pieces
pub mod Retold
pub mod Seats
pub mod Settled
pub mod Spots
pub use Rattle.authority_core.proofs as authority_core
pub use Rattle.log_core.proofs as log_core
