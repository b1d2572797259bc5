pub mod SampleLaws
pub mod WidthLaws
