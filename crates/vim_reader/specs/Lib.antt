pub mod Machine
pub mod Reading
pub mod Table
