pub mod Terms
pub mod Upright
pub mod Kept
