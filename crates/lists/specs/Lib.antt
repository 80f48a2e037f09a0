pub mod Beginnings
pub mod Codes
pub mod Lists
pub mod Rounds
