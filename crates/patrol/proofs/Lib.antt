pub mod Radios
pub mod Reports
