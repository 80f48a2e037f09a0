pub mod Walking
pub mod Within
pub mod Counters
