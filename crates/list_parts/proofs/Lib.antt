pub mod NumberLaws
pub mod TrimLaws
