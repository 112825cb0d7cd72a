pub mod LineFacts
mod JoinFacts
mod Places
mod Taking
mod Advancing
pub mod Reading
mod Cuts
pub mod FieldFacts
pub mod Decimals
pub mod Deciding
mod Rows
