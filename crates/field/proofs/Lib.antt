pub mod Laws
pub mod Only
pub mod Rows
pub mod Matrices
pub mod Known
