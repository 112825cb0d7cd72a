pub mod Numbers
pub mod Strings
pub mod Reading
pub mod Stubs
pub mod Writing
