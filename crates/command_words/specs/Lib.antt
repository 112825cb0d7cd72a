pub mod Syntax
pub mod Words
pub mod Reading
pub mod Shapes
pub mod Plain
pub mod Finding
