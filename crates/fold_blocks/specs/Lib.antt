pub mod Bytes
pub mod Files
pub mod Listed
pub mod Layout
