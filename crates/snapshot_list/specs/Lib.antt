pub mod Numbers
pub mod Finding
pub mod Starting
pub mod Busy
pub mod Keeping
pub mod Rooms
pub mod Routing
pub mod MergeStarting
