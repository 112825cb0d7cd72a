pub mod Filters
pub mod Laws
pub mod Progress
pub mod Steps
