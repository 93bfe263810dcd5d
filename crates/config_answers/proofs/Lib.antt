pub mod PlanLines
pub mod Fronts
