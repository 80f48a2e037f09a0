pub mod Inner
pub mod Walk
pub mod Encloses
pub mod Innermost
