pub mod Timestamps
pub mod Layouts
pub mod Spelling
pub mod Parts
