pub mod Entries
pub mod NarrowedTree
