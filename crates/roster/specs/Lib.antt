pub mod Values
pub mod Keys
pub mod Wrong
pub mod RosterData
pub mod Rosters
pub mod Seen
pub mod Rates
pub mod Limits
