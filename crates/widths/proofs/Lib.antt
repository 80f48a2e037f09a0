pub mod WideTable
pub mod ClassedTable
pub mod Flips
pub mod Stretches
pub mod Tables
pub mod Lent
pub mod Laws
