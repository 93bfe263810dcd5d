pub mod Counting
pub mod Windows
pub mod WindowOf
pub mod IsWindow
