pub mod Table
pub mod Drawn
pub mod Encode
