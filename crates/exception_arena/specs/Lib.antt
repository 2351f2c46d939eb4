pub mod Pending
pub mod Kept
pub mod Links
pub mod Arenas
pub mod Keeping
