pub mod Answers
pub mod Tallies
