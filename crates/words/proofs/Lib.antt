pub mod Bare
pub mod Classes
pub mod Made
pub mod Letters
pub mod Counting
