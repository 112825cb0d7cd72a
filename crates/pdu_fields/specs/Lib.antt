pub mod Tables
pub mod Headers
pub mod Bodies
pub mod Grammar
pub mod Parsing
