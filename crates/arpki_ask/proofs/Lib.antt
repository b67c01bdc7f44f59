pub mod KeyLines
pub mod Readings
pub mod RollLines
pub mod Writings
