-- Laws of carets after an edit, which the proofs of this crate and of the crates above it cite.
pub mod Follows
