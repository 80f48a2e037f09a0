pub mod Folds
pub mod Cover
