pub mod Forms
pub mod Exact
pub mod Inner
