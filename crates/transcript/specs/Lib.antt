pub mod Answers
pub mod Hex
pub mod Lines
pub mod Reading
