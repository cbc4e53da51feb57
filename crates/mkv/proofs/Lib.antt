pub mod Trace
pub mod XWords
pub mod Rounds
pub mod KeyCode
