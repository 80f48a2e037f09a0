pub mod Lengths
pub mod Progress
pub mod Printing
pub mod PlainKeys
pub mod Plain
