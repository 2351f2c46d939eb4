pub mod Meets
pub mod Refused
pub mod Places
pub mod Asks
pub mod Filled
pub mod Flies
pub mod Holds
pub mod Serves
pub mod Parts
pub mod Uses
pub mod Unflushed
pub mod Tells
pub mod Events
pub mod Merges
pub mod Begins
pub mod Finishes
pub mod Resumes
pub mod Closes
pub mod Stops
pub mod Orders
pub mod Begun
pub mod Statuses
mod Mapped
pub mod Listed
pub mod Showing
mod Firsts
pub mod Traces
mod Layered
