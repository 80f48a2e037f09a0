pub mod Classed
pub mod ByTerm
