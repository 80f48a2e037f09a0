-- The proof that the classes determine each step, and what follows for walks and words.
pub mod Points
pub mod Determined
pub mod Stepping
pub mod Law
pub mod Walks
pub mod Runs
pub mod Running
pub mod Leaving
pub mod Hops
pub mod Behind
