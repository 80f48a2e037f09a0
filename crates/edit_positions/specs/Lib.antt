pub mod After
pub mod Change
