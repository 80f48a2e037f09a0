pub mod Edits
pub mod Editable
