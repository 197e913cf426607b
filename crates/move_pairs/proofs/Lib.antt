pub mod Partners
pub mod Pair
pub mod Row
pub mod Flips
pub mod Changes
pub mod Kept
pub mod Agreed
pub mod Filling
