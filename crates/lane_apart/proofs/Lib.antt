pub mod Telling
pub mod Looking
pub mod Serving
pub mod Asking
pub mod Parts
pub mod Following
pub mod Apart
pub mod Rows
