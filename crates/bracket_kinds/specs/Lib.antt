pub mod Kinds
pub mod Find
