pub mod Settings
pub mod Before
