pub mod Piles
pub mod PilesLemmas
pub mod Words
