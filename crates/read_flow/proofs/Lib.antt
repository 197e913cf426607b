pub mod Entries
pub mod Tables
pub mod Sets
pub mod Gathered
pub mod Ends
pub mod Filling
