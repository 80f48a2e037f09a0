pub mod Bits
pub mod Marks
pub mod Stretches
pub mod Told
