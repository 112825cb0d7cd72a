pub mod Operands
pub mod Unique
pub mod ReadRight
pub mod Computed
pub mod Exclusive
pub mod OneCause
pub mod AnswerFacts
pub mod Settled
