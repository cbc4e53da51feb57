pub mod Test
pub mod Xor
pub mod Loops
pub mod Parts
pub mod Tables
pub mod Words
