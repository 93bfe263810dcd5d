pub mod Commas
pub mod ItemCounts
pub mod Unknown
pub mod Order
pub mod Clusters
pub mod Documents
