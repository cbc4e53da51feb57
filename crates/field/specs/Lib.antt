pub mod Byte
pub mod Laws
pub mod Matrix
pub mod Known
