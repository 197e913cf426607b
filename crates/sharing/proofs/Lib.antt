pub mod Inputs
pub mod Meeting
