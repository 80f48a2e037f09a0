pub mod Onto
pub mod Ahead
pub mod Back
pub mod Telling
