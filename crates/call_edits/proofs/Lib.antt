-- Laws of edits by numbers, which the proofs of this crate cite.
pub mod Shown
pub mod Filling
