pub mod Agree
pub mod Flat
pub mod Table
pub mod Worked
