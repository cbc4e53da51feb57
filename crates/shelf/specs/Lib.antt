pub mod Links
pub mod Standing
pub mod Items
pub mod Calls
pub mod Past
pub mod Keys
