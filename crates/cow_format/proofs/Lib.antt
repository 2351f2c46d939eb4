pub mod AreaPlaces
pub mod Pairs
pub mod Slots
pub mod NextPlaces
pub mod Pictures
pub mod Views
