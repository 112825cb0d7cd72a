pub mod Rows
pub mod Refusals
pub mod NumberFacts
pub mod ReadBack
