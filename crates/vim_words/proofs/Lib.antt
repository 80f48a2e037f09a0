pub mod Telling
pub mod Above
pub mod Refusing
pub mod Alike
