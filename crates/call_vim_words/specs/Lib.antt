pub mod ByTerm
