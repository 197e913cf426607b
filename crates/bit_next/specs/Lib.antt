pub mod NextBit
