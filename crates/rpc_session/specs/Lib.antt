pub mod Fragments
pub mod Contexts
pub mod Unexpected
pub mod Client
pub mod ClientStanding
pub mod Server
pub mod ServerStanding
pub mod Runs
