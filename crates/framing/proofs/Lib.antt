pub mod Fronts
pub mod Cutting
pub mod Heads
pub mod FramerHistory
