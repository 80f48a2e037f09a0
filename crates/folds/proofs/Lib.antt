-- Laws of folds, which the proofs of this crate and of the crates above it cite.
pub mod Hiding
pub mod Past
pub mod Spans
