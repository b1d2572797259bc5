pub mod DateLaws
pub mod TimeLaws
pub mod SpanLaws
pub mod Examples
