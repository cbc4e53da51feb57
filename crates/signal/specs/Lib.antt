pub mod Coded
pub mod Figures
pub mod Words
