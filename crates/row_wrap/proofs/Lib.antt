pub mod Twice
pub mod Walk
pub mod Tiles
pub mod Index
pub mod Room
pub mod Laws
pub mod Examples
