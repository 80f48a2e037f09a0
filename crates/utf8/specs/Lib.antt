pub mod Encoding
pub mod Decoding
pub mod Sequences
pub mod Numbers
pub mod Calls
pub mod Walks
pub mod Rooms
