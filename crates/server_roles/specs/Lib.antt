pub mod Own
pub mod Sources
pub mod Answering
pub mod Laws
