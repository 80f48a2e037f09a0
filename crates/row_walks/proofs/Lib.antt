-- Laws of walks from row to row, which the proofs of this crate and of the crates above it cite.
pub mod Ways
pub mod Walks
pub mod Rounding
pub mod Leading
pub mod Marks
pub mod Adding
