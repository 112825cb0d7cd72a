pub mod Fields
pub mod Input
pub mod Output
pub mod Ends
pub mod Laws
pub mod Walking
pub mod Showing
