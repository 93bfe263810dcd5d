pub mod Frames
pub mod Handing
pub mod Pieces
pub mod Streaming
pub mod Showing
pub mod Counting
