pub mod Rows
pub mod Parsed
pub mod OneReading
