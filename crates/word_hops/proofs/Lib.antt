-- Laws of one word on or back, which the proofs of this crate and of those above cite.
pub mod Hopping
