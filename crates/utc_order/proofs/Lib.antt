mod Rows
pub mod PointFacts
pub mod PlaceFacts
pub mod KeptFacts
pub mod HeadingFacts
pub mod PrintFacts
pub mod ReadFacts
pub mod CertainFacts
pub mod OrderFacts
pub mod UniqueFacts
pub mod CauseFacts
