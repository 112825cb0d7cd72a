pub mod Numbers
pub mod Statuses
pub mod Commands
pub mod Built
pub mod Kinds
