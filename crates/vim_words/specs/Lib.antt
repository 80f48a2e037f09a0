pub mod Flags
pub mod ByVim
pub mod Alike
