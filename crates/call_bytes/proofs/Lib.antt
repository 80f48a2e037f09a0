pub mod Replies
pub mod Joins
pub mod Twos
