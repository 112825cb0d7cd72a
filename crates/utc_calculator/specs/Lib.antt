pub mod Places
pub mod Operations
pub mod Results
pub mod Answers
pub mod Writing
