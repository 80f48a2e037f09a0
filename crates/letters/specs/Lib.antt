pub mod LetterTable
pub mod Letters
