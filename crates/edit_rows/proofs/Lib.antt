-- Laws of edits that keep a table, which the proofs of this crate and of the crates above it cite.
pub mod Refills
pub mod Tables
pub mod Made
pub mod Runs
