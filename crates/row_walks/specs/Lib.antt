pub mod Toward
pub mod Paragraphs
pub mod Sections
