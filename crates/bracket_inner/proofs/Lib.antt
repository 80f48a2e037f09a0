-- Laws of the innermost pair, which the proofs of this crate and of `promises` cite.
pub mod Search
pub mod Enclosing
pub mod Depths
pub mod Walked
pub mod Closed
pub mod Answer
pub mod Call
pub mod Places
pub mod Told
pub mod Innermost
