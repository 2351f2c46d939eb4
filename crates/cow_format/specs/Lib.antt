pub mod Slots
pub mod Places
pub mod Pairs
pub mod NextPlace
pub mod Picture
