-- Laws of the checks with a table, which the proofs of this crate and of the crates above it cite.
pub mod Rows
