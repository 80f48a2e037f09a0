-- Laws of the motions with a table.
pub mod Alike
