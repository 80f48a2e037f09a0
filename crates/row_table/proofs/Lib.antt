-- Laws of row starts, which the proofs of this crate and of the crates above it cite.
pub mod Starts
pub mod Puts
pub mod Held
pub mod Ascend
pub mod Fills
