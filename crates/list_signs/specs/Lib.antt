pub mod Converted
pub mod Marks
pub mod Plain
pub mod Signs
