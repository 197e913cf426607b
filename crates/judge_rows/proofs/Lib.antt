pub mod Laws
pub mod Tables
pub mod Listed
pub mod Standing
