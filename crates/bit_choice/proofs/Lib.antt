pub mod Highest
pub mod OneMove
pub mod Tally
pub mod Better
pub mod OnePass
pub mod AllPasses
pub mod Ahead
