-- Laws of row starts after an edit, which the proofs of this crate and of the crates above it cite.
pub mod Moving
pub mod Kept
