pub mod Visible
pub mod Ready
