pub mod Reasons
pub mod Inner
