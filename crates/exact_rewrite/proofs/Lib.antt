pub mod FieldLaws
pub mod LineLaws
pub mod LinesLaws
pub mod EndLaws
pub mod WholeLaws
pub mod ExactLaws
