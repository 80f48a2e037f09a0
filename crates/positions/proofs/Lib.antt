-- Laws of positions, which the proofs of this crate and of the crates above it cite.
pub mod Lowest
pub mod Checks
pub mod Entered
