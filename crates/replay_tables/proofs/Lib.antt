-- What the proofs lean on: how many places a reply fills, and what an edit comes to.
pub mod Sizes
pub mod Keeping
