pub mod Versions
pub mod Found
pub mod Computed
