pub mod Table
pub mod Seen
pub mod Calls
pub mod Pasts
