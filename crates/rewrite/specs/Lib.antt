pub mod Rewrite
pub mod Inner
