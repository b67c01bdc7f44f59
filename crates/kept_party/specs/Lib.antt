pub mod Lives
pub mod Parts
pub mod Recalled
pub mod Taking
