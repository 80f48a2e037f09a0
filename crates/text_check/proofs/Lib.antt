-- Laws of accepted texts, which the proofs of this crate and of the crates above it cite.
pub mod Accepted
