pub mod Starts
pub mod Inside
