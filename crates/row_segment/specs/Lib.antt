pub mod Segments
pub mod Lent
