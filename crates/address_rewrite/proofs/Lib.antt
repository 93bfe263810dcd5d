pub mod PlanLimits
pub mod Skipping
pub mod NodesGivenBack
pub mod FieldsOfNodes
