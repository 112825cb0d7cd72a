pub mod Counting
pub mod Few
pub mod MadeLists
pub mod Making
pub mod Quiet
mod Rows
