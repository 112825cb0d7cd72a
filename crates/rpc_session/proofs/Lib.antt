pub mod Cuts
pub mod Taken
pub mod Rows
pub mod Whole
pub mod Fitting
