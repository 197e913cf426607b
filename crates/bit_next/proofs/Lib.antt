pub mod NextBit
pub mod Counters
