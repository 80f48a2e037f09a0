pub mod Text
pub mod Offsets
