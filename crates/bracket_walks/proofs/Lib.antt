-- Laws of partners, which the proofs of this crate and of `bracket_laws` cite.
pub mod Sides
pub mod Depth
pub mod Deep
pub mod Ahead
pub mod Behind
pub mod Walking
pub mod Placed
