pub mod Bounds
pub mod Faultless
pub mod Named
