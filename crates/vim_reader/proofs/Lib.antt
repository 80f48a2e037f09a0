pub mod Answers
pub mod MachineLaws
pub mod StateLaws
pub mod TableLaws
pub mod RunLaws
pub mod RunEnds
