pub mod Books
pub mod Calls
pub mod Past
pub mod Law
