pub mod Ways
pub mod Walked
pub mod Wide
pub mod Judgement
