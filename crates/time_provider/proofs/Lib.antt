pub mod Counting
pub mod Standing
pub mod Polling
mod Rows
