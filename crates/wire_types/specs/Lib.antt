pub mod Numbers
pub mod Strings
pub mod Lengths
pub mod OneSpelling
pub mod Reading
