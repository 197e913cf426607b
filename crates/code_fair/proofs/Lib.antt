pub mod Limits
pub mod Twin
pub mod FairListings
