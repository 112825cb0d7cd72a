pub mod Rooms
pub mod Past
pub mod State
pub mod Settling
