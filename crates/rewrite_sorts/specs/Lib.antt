pub mod Sorts
pub mod Cuts
