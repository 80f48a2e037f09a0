-- Laws of buffers that are written over, which the proofs of this crate and of the crates above it cite.
pub mod Puts
pub mod Parts
pub mod Closing
pub mod Replaces
