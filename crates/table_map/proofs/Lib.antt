pub mod Bits
pub mod Hashing
pub mod Learning
pub mod OneFoot
pub mod OneText
pub mod Placing
pub mod Answering
