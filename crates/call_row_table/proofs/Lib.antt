-- Laws of the calls on a table, which the proofs of this crate and of `exports` cite.
pub mod Shown
pub mod Filling
