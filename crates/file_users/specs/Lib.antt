pub mod Locks
pub mod Numbers
