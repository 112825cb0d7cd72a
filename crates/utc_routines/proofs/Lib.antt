pub mod ComparisonLemmas
pub mod EndsLemmas
pub mod LeastLemmas
pub mod TightestLemmas
pub mod OneResult
pub mod Refusals
pub mod Exactly
pub mod Points
