pub mod Needed
pub mod Inner
