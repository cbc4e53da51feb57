pub mod Hex
pub mod Ciphers
pub mod Faults
