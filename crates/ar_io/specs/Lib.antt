pub mod Calls
pub mod MemSink
pub mod MemSource
pub mod QuietSink
pub mod ReadAll
pub mod StdEdge
pub mod Wrote
