-- Laws of rows by the classes, which the proofs of this crate and of those above cite.
pub mod Counting
pub mod Loops
