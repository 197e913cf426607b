pub mod Moving
pub mod Printed
