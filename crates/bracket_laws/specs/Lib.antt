pub mod Pairs
pub mod Demand
pub mod Jump
