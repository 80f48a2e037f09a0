-- Laws of the checks of an edit, which the proofs of this crate and of the crates above it cite.
pub mod Numbers
pub mod Spots
pub mod Chain
