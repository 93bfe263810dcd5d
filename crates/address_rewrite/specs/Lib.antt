pub mod Nodes
pub mod Addresses
pub mod AtProxy
pub mod AddressFields
pub mod AddressedTrees
pub mod AddressLaws
pub mod PlanFilter
