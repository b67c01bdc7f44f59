pub mod Answering
pub mod Connections
