pub mod Answers
pub mod Calls
pub mod Faults
pub mod Looked
pub mod Gathering
pub mod Served
pub mod Steps
pub mod Submits
