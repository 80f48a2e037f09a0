-- Laws of brackets, which the proofs of this crate and of the crates above it cite.
pub mod Columns
pub mod Call
