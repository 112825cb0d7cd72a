pub mod Loops
pub mod Decoded
pub mod ReadBack
pub mod Sound
