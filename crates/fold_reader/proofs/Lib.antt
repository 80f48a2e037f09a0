pub mod Answers
pub mod Breaking
pub mod Takes
