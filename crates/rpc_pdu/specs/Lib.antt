pub mod Soundness
pub mod Spelling
pub mod Values
