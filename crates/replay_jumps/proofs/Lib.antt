-- What the proofs lean on: what the call leaves, compared.
pub mod Leaving
