pub mod Near
pub mod Others
