-- Laws of positions after an edit, which the proofs of this crate and of the crates above it cite.
pub mod Places
pub mod Formula
pub mod Going
