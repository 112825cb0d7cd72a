pub mod Members
pub mod Octets
pub mod Stamp
