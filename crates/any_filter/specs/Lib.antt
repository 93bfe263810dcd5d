pub mod AnyTurn
pub mod AnyLaws
pub mod Chains
