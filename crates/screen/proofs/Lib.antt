-- Laws of the screen walks, which the proofs of this crate and of the crates above it cite.
pub mod ScreenRounds
pub mod Walking
pub mod Landing
pub mod Spans
pub mod Inside
pub mod Examples
pub mod Keeping
