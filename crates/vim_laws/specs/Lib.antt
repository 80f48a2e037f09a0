pub mod Common
pub mod Lists
pub mod Written
