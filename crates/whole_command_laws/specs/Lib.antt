pub mod Running
pub mod Undone
