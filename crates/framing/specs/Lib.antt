pub mod Frames
pub mod Cuts
pub mod Feed
pub mod Answers
pub mod FramerHistory
pub mod CorrelationIds
pub mod Heads
pub mod RequestStarts
