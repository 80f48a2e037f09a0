pub mod Screen
pub mod Walks
pub mod Ready
pub mod Keeping
