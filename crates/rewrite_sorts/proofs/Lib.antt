pub mod CutLaws
pub mod SortLaws
