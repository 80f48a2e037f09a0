pub mod Scalar
pub mod White
pub mod Width
pub mod WidthTables
