pub mod Layout
pub mod Requests
pub mod Replies
pub mod Errors
pub mod Reading
pub mod Writing
