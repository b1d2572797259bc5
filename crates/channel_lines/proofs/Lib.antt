pub mod PlaceLaws
pub mod Laws
