-- Laws of carets and motions, which the proofs of this crate and of the crates above it cite.
pub mod Landing
pub mod WordLanding
pub mod Examples
pub mod Finding
pub mod Wording
pub mod Upright
pub mod Reaching
pub mod Fitting
pub mod Checked
pub mod Every
