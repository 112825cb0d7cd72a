pub mod Rows
pub mod Booleans
pub mod Remaining
pub mod Timestamps
pub mod Texts
pub mod Pieces
pub mod ReadBack
