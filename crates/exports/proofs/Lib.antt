-- Laws that the proofs of the exports cite.
pub mod Parts
