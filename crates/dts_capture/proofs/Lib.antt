pub mod Adding
pub mod KindLaws
pub mod FormLaws
pub mod Parsed
pub mod FieldSteps
pub mod TextLaws
mod Graphic
mod KindTexts
mod FormTexts
mod Printed
pub mod LineTexts
pub mod Lengths
pub mod AnyRecord
pub mod EachLine
mod Rows
