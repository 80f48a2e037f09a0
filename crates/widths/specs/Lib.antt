pub mod ClassTable
pub mod Widths
