pub mod Characters
pub mod Flags
pub mod Lists
pub mod Tabs
pub mod Wraps
