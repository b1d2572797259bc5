pub mod PackLaws
pub mod ChannelLaws
pub mod RowLaws
