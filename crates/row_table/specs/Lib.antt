pub mod Table
pub mod Fill
pub mod Ascend
