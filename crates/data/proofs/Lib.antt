pub mod Laws
pub mod FileLaws
pub mod UnreadLaws
