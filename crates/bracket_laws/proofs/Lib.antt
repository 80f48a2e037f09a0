-- The laws of pairing, which `promises` cites.
pub mod Crossing
pub mod Pairs
pub mod Partners
pub mod Answers
pub mod Inner
pub mod Call
pub mod Positions
pub mod Demand
pub mod Plain
pub mod Jump
