-- Laws of the moves, which the proofs of the crates above cite.
pub mod Staying
pub mod Led
pub mod Going
pub mod Adding
