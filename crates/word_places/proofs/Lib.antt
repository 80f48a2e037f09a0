-- Laws of walks over the classes, which the proofs of this crate and of those above cite.
pub mod Walking
