pub mod Peers
pub mod Streams
pub mod Pushes
pub mod Calls
pub mod Sides
pub mod Counting
