pub mod Characters
pub mod Sets
pub mod Numbers
