pub mod Called
pub mod Joined
pub mod NamesMeant
pub mod Meant
