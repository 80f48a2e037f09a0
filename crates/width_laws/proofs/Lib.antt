pub mod Agree
pub mod Columns
pub mod Cells
pub mod Texts
pub mod Less
pub mod Settings
pub mod Before
