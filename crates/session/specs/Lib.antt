pub mod Session
pub mod Written
