pub mod Merging
pub mod Troubles
