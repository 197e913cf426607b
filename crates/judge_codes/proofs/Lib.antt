pub mod Bits
pub mod First
pub mod Laws
