pub mod LinesLaws
pub mod TurnLaws
pub mod PutLaws
pub mod SmallLaws
