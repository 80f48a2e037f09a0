-- Laws of plain lists, which the proofs of the crates above cite.
pub mod Beginnings
pub mod Both
pub mod Lists
pub mod Any
pub mod Decides
pub mod Finding
pub mod Splits
pub mod Same
pub mod Rounds
pub mod Kit
