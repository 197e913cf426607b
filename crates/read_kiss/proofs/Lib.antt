pub mod Cutting
pub mod Endings
pub mod Fields
pub mod Saying
pub mod Steps
pub mod Walked
