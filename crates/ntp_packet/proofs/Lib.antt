pub mod Reading
pub mod Rounding
pub mod EraLaws
pub mod TrueTime
pub mod Octets
pub mod Rows
