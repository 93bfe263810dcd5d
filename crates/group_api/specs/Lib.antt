pub mod DescribeGroups
pub mod Heartbeat
pub mod JoinGroup
pub mod LeaveGroup
pub mod ListGroups
pub mod OffsetCommit
pub mod OffsetFetch
pub mod SyncGroup
