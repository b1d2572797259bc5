pub mod Dates
pub mod Times
pub mod Spans
pub mod Inner
