pub mod Rows
pub mod Headed
pub mod Fronts
pub mod Cuts
pub mod Given
