pub mod Adoption
pub mod Adopted
