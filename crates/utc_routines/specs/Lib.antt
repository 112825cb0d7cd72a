pub mod Arithmetic
pub mod Comparison
pub mod Formula
pub mod Interval
pub mod Tightest
