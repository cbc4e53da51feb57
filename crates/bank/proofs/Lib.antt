pub mod Runs
pub mod Totals
pub mod Sessions
pub mod Law
