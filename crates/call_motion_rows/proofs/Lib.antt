-- Laws of the motions by numbers with a table.
pub mod Tabled
