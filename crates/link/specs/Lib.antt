pub mod Record
pub mod Calls
