pub mod Moves
pub mod Viewport
