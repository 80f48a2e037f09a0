-- Laws of tabstops, which the proofs of this crate and of the crates above it cite.
pub mod Accepted
pub mod Leading
