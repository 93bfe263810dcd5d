pub mod ApiVersions
pub mod CreateTopics
pub mod DeleteTopics
pub mod FindCoordinator
pub mod Metadata
