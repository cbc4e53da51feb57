pub mod Join
pub mod Padding
pub mod Modes
pub mod Machine
pub mod Checks
pub mod Laws
pub mod Numbers
