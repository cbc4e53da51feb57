pub mod Trace
pub mod Filled
pub mod Chunks
