pub mod Says
pub mod Walks
