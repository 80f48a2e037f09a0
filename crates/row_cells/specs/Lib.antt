pub mod Cells
pub mod Offsets
