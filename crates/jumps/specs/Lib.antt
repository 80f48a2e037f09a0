pub mod Jumps
pub mod Leaps
pub mod Footings
