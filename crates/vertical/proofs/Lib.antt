-- Laws of the vertical walks, which the proofs of this crate and of the crates above it cite.
pub mod Accepted
pub mod Landed
pub mod Inside
pub mod Edges
pub mod Examples
pub mod Ends
pub mod Adding
