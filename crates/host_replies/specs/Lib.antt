pub mod Plans
pub mod Ready
pub mod Saying
