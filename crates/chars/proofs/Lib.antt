pub mod Facts
pub mod Tables
pub mod Before
pub mod Lent
