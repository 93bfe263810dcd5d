pub mod PlanTexts
pub mod ConfigAnswers
pub mod ClusterAnswers
