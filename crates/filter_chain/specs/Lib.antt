pub mod Answers
pub mod Chain
pub mod Outcomes
pub mod Laws
pub mod Suspensions
pub mod RunStates
