mod Rows
pub mod AddressIs
pub mod Walks
pub mod Accepted
pub mod ReadIs
pub mod Giving
pub mod Equal
pub mod Settled
pub mod Keeping
pub mod Alone
pub mod Causes
