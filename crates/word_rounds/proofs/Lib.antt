pub mod Folding
pub mod Own
pub mod Again
pub mod Counts
pub mod Adding
pub mod Turning
pub mod Inside
pub mod Examples
