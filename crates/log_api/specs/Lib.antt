pub mod Fetch
pub mod ListOffsets
pub mod Produce
