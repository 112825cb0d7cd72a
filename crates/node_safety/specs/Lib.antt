pub mod World
pub mod Safety
pub mod Answers
pub mod Laws
