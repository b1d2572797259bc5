pub mod FormLaws
pub mod SizeLaws
pub mod LimitLaws
pub mod Examples
