pub mod Pairs
pub mod Matching
pub mod Walk
