pub mod Copies
pub mod Changes
pub mod Writes
pub mod Snaps
pub mod Laws
pub mod Events
pub mod Aheads
pub mod Histories
