pub mod Lasting
pub mod Silence
pub mod Heads
pub mod Progress
pub mod Spelled
pub mod OwnEnds
