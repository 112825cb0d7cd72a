pub mod Rows
pub mod PointLaws
pub mod AdoptionLaws
pub mod LoopLaws
