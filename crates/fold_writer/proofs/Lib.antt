pub mod Answers
pub mod Laying
pub mod Writes
