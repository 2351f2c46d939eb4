pub mod Arrays
pub mod Shown
pub mod Commands
pub mod Well
pub mod Undoing
