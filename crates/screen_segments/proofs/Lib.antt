-- Laws of the segments of a row, which the proofs of this crate and of the crates above it cite.
pub mod Seats
pub mod Finding
pub mod Examples
