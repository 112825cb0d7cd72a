pub mod Fields
pub mod Packets
pub mod Judging
pub mod Fractions
pub mod Intervals
pub mod Eras
