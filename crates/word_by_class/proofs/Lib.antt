-- Laws of rounds by the classes, and that they are the first engine's.
pub mod Jumping
pub mod Same
pub mod Fits
pub mod Asks
pub mod Counts
pub mod Bare
pub mod Counting
