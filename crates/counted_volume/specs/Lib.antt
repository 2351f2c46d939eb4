pub mod Following
pub mod Places
pub mod TakesPlaces
pub mod Declined
pub mod GoingOn
pub mod Trace
pub mod DoneDue
