pub mod Places
pub mod Spots
pub mod Lent
