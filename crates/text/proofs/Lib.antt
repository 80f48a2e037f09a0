-- Laws of texts, which the proofs of this crate and of the crates above it cite.
pub mod Rows
pub mod Parts
pub mod At
pub mod Before
pub mod Stands
pub mod Stretches
pub mod Content
pub mod Examples
