mod Rows
pub mod Pairs
pub mod Prefix
pub mod Steps
pub mod Tables
pub mod Joined
pub mod Held
pub mod ReadBack
