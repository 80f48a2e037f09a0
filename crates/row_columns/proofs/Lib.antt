pub mod Visual
pub mod Chars
pub mod Cursor
pub mod Leading
pub mod Accepted
pub mod Laws
