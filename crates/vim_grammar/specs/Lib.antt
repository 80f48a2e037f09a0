pub mod Grammar
pub mod Tokens
