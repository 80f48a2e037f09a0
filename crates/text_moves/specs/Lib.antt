pub mod Rows
pub mod Sections
pub mod Paragraphs
pub mod Ways
