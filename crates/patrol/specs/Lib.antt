pub mod Sets
pub mod Radios
pub mod Steps
pub mod Links
pub mod Reports
pub mod Season
