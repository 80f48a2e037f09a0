pub mod Pressed
pub mod Ends
