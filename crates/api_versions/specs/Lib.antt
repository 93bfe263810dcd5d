pub mod Refusal
pub mod Narrowing
