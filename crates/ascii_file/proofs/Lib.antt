pub mod Laws
pub mod RoundLaws
pub mod FileLaws
pub mod PlainLaws
