pub mod Rows
pub mod Known
pub mod Runs
