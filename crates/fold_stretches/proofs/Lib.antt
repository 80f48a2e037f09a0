pub mod Asunder
pub mod Spans
