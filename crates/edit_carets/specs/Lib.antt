pub mod Carets
