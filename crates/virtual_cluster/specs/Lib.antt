pub mod Limits
pub mod Names
pub mod Pairs
pub mod Refusals
