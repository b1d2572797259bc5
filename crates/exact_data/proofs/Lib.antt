pub mod NumberLaws
pub mod BinaryLaws
pub mod TextLaws
pub mod FileLaws
pub mod StandLaws
pub mod PlainLaws
pub mod ChangeLaws
