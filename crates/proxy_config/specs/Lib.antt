pub mod Texts
pub mod Values
pub mod Meant
pub mod Refusals
pub mod Steps
pub mod Halves
