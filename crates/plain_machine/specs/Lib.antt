pub mod Replies
pub mod Plain
pub mod Kept
pub mod Serves
pub mod Legal
pub mod Runs
pub mod Unwritten
pub mod Failures
