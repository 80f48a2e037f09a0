pub mod Cells
pub mod Indents
