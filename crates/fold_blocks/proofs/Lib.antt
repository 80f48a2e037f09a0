pub mod Cuts
pub mod Files
pub mod Numbers
pub mod Rules
pub mod Whole
pub mod Toward
