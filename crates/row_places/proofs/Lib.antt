pub mod UnfitLaws
pub mod RowLaws
