pub mod Outcome
pub mod Queries
pub mod Standing
pub mod Told
