pub mod Civil
pub mod Fields
pub mod FirstWrong
pub mod Grammar
pub mod Printing
pub mod Reading
pub mod Texts
pub mod Written
