pub mod Ended
pub mod Left
pub mod Opened
pub mod Shown
pub mod Wanted
