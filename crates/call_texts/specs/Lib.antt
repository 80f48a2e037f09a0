pub mod Rows
pub mod Carets
pub mod Asks
pub mod Moves
pub mod Partners
pub mod Inners
pub mod Seeks
pub mod Viewports
