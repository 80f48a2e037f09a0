-- The laws of edits: see `specs/Laws.antt`.
pub mod Texts
pub mod FoldLists
pub mod RowMaps
pub mod After
pub mod Back
pub mod Staying
pub mod Running
pub mod Examples
