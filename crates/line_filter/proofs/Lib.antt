pub mod TakeFacts
mod Stepping
mod Settling
