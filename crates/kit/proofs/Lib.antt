pub mod Agree
pub mod Calls
