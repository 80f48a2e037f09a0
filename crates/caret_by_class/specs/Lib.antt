pub mod ByClass
pub mod Alike
