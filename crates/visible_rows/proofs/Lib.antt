-- Laws of the walks among visible rows, which the proofs of this crate and of the crates above it cite.
pub mod Free
pub mod Visible
pub mod Signed
pub mod Adding
