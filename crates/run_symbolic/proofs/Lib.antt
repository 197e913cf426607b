pub mod Means
pub mod Steps
