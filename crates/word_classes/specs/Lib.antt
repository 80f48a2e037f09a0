pub mod Classes
pub mod Call
