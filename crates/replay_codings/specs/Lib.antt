pub mod Codings
