pub mod Reply
pub mod Joined
