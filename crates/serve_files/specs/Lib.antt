pub mod Ending
pub mod Listing
pub mod Making
pub mod Names
pub mod Served
pub mod Status
