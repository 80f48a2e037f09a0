pub mod Entry
pub mod Plain
