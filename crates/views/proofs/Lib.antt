pub mod Arrays
pub mod Splits
pub mod Drafts
pub mod Bodies
pub mod OneView
