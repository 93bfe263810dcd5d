pub mod Requests
pub mod Chained
pub mod Underway
pub mod Kinds
pub mod Spelled
pub mod AnswerBodies
