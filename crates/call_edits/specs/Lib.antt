pub mod Edits
pub mod Bytes
