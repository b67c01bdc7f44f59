pub mod Acting
pub mod Authorities
pub mod Codes
pub mod Composing
pub mod Finding
pub mod Forging
pub mod Owners
pub mod Parties
pub mod Pool
pub mod Sending
pub mod Teaching
pub use Rattle.authority_core.specs as authority_core
pub use Rattle.log_core.specs as log_core
