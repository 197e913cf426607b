pub mod Minus
pub mod Said
