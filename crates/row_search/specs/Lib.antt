pub mod Nearest
pub mod Find
