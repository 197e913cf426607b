pub mod Live
pub mod Family
pub mod Sifting
pub mod Next
pub mod Starts
pub mod Counts
