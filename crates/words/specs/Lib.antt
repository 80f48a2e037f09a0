pub mod Prepared
pub mod Walked
pub mod Ready
