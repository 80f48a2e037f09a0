pub mod Walks
pub mod Halts
