pub mod Configuration
pub mod Data
pub mod Written
pub mod Lines
pub mod Fields
pub mod Order
