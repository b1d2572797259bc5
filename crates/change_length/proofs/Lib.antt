pub mod TallyLaws
pub mod LengthLaws
pub mod BinaryLaws
