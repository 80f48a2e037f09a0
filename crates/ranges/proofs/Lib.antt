pub mod Ascending
pub mod Bounds
pub mod Lengths
pub mod Search
pub mod Worked
