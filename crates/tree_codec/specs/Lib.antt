pub mod Faults
pub mod Found
pub mod Decoding
pub mod Levels
pub mod Copying
pub mod Encoding
