-- Laws that the proofs of `jumps` cite.
pub mod Pairs
pub mod Single
pub mod Running
pub mod Spots
pub mod Late
pub mod Calling
