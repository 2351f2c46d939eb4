pub mod Lived
pub mod Answered
pub mod Lasted
pub mod AtOnce
pub mod Flushed
pub mod Doing
pub mod Life
