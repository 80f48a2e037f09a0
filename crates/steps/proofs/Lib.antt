-- Laws of steps, which the proofs of this crate and of the crates above it cite.
pub mod Stepping
pub mod Staying
