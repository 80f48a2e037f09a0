-- Laws of edits, which the proofs of this crate and of the crates above it cite.
pub mod Small
pub mod Making
pub mod Known
pub mod Made
