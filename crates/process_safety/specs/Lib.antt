pub mod Examples
pub mod Going
pub mod Lasting
pub mod Network
pub mod Unforged
