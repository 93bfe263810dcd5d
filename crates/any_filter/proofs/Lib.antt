pub mod Resumed
pub mod Chained
