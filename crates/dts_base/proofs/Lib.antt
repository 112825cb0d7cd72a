pub mod ToldFacts
pub mod SliceFacts
pub mod Decimals
pub mod AddressFacts
pub mod ScriptFacts
