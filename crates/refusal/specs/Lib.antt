pub mod Numbers
pub mod Checks
pub mod Words
pub mod Faults
