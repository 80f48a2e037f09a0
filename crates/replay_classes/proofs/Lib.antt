-- What the proofs lean on: an answer compared part by part.
pub mod Parts
