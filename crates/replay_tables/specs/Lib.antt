pub mod Tables
pub mod Edits
pub mod Motions
pub mod Verdicts
