pub mod Pieces
pub mod Feeding
pub mod Calls
pub mod Standing
