pub mod Probes
pub mod Heeding
pub mod ProbeTurns
pub mod Grown
