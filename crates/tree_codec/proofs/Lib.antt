pub mod Stacks
pub mod Progress
pub mod Steps
pub mod Edits
pub mod Parts
pub mod Retaining
mod Fronts
