pub mod White
pub mod First
pub mod Step
