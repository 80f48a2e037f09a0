pub mod Segments
pub mod Modes
pub mod Room
pub mod Calls
