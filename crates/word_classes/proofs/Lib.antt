-- Proofs of word_classes: the laws that more than one proof uses.
pub mod Writing
pub mod Refusing
