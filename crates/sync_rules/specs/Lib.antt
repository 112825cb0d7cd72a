pub mod History
pub mod Live
pub mod Rounds
pub mod Rules
pub mod Ranges
pub mod World
pub mod Safety
pub mod Laws
